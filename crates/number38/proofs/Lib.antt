pub mod MantissaLaws
pub mod OrderLaws
pub mod PrintedLaws
pub mod RangeLaws
pub mod ReadingLaws
pub mod ReadBackLaws
pub mod SumLaws
pub mod TextLaws
