pub mod Datalists
pub mod Options
pub mod Settled
