pub mod Apart
pub mod Laws
pub mod RowLaws
pub mod LeftOut
