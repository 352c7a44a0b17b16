pub mod KeywordSearch
