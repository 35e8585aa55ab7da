pub mod StepCounts
pub mod CourseLaws
pub mod Fronts
pub mod Rows
pub mod RunLaws
