pub mod Views
pub mod SizeLaws
pub mod PathLaws
pub mod DepthLaws
pub mod PartLaws
