pub mod QueryView
pub mod AskQueries
pub mod QueryAnswers
pub mod QueryEnds
pub mod PingRequests
pub mod PingAnswers
pub mod PingEnds
