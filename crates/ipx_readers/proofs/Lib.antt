pub mod ConfirmedTold
