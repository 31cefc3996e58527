-- Laws that several functions share.
pub mod ReaderWays
pub mod WriterWays
pub mod EntryTrips
