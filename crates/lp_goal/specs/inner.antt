pub mod ByConstant
