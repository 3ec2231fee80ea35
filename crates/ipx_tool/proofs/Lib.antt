pub mod JoinedWords
pub mod ListedWords
pub mod OneCommand
pub mod OptionsAfter
pub mod PingWords
pub mod TypedWords
pub mod WordsSeparate
