pub mod Decimal
pub mod Field
pub mod Leading
pub mod Lines
