-- Laws that the code's proofs share.
pub mod RecordsOut
pub mod ClausesOut
pub mod Stretching
pub mod Summing
pub mod BothSides
