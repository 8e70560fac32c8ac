pub mod LineRead
pub mod OpRead
pub mod PrintLemmas
pub mod ProgramRead
pub mod SolidForms
pub mod StatedForms
pub mod TextForms
pub mod TypeRead
