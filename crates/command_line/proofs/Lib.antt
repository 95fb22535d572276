mod Numerals
mod ParserRules
mod WordKinds
mod Hopeless
mod Turns
mod PlainTurns
mod SettingRows
mod Meanings
mod Agreement
mod AwaitedAgreement
mod ParsedRows
mod ParserCalls
pub mod AskedCommands
pub mod AskedSizes
pub mod AskedForms
pub mod AskedSoaks
mod Generations
mod Parts
