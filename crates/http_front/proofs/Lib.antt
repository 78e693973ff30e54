pub mod HeadLemmas
pub mod BodyLemmas
pub mod StreamLemmas
pub mod WriterLemmas
pub mod SparingLemmas
