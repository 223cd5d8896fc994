pub mod PairLaws
pub mod StepLaws
pub mod Laws
