-- Why steps stop.
use Rattle.core_parts.specs.declared.stop.StepStop.{StepStop}
use Rattle.core_parts.specs.declared.stop.StepStop.TheVariants.{NotEnabled, NoMemory}

-- the stop is for want of memory, and not for an event
abbrev pub WantsMemory : StepStop → Type 0
WantsMemory (NotEnabled at) = ⊥
WantsMemory (NoMemory refusal) = Unit {0}
