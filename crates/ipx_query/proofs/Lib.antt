pub mod HearingSteps
pub mod AnswerSteps
