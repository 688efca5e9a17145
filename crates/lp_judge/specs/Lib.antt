pub mod Negated
pub mod Asked
pub mod Judged
pub mod Checked
pub mod Proved
pub mod Proofs
pub mod inner
