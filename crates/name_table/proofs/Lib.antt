pub mod FirstRecords
