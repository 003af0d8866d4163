pub mod RecordLaws
mod ScanLaws
mod AnyOpenLaws
