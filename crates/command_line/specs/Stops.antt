-- What an error of the parser of options comes to.
use Rattle.clap.specs.declared.error.kind.ErrorKind.{ErrorKind}
use Rattle.clap.specs.declared.error.kind.ErrorKind.TheVariants.{OutOfMemory}
use Rattle.command_line.specs.declared.invocation.WordsStop.{WordsStop}
use Rattle.command_line.specs.declared.invocation.WordsStop.TheVariants.{BadWords, NoMemory}

-- only want of memory is no fault of the words
abbrev pub stop_of_kind : ErrorKind → WordsStop
stop_of_kind OutOfMemory = NoMemory
stop_of_kind _ = BadWords
