pub mod CopiedWords
