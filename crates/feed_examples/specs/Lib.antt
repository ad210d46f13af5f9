pub mod BaseFeed
