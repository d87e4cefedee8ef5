pub mod Plans
pub mod Lines
pub mod PlanTexts
pub mod Columns
pub mod Reading
pub mod UnreadableLines
pub mod View
