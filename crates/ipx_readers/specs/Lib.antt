pub mod ConfirmedEnds
