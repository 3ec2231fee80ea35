pub mod TokenBucket
