pub mod FeatureLaws
