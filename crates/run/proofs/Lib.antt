pub mod Put
pub mod Sheets
pub mod RecordsOfRows
pub mod SheetRefusals
pub mod RowKinds
pub mod RowCauses
pub mod SheetCauses
pub mod MarginCauses
pub mod Causes
pub mod Loaded
pub mod Promise
pub mod Layers
mod RecordsBy
mod Reach
mod Keys
mod Tests
mod Lacking
mod Right
mod ToTheEnd
mod Taking
mod Accepting
mod TextLengths
mod ShortRows
mod Room
mod RowCount
mod Stated
mod Begun
mod Loads
mod Promised
mod SheetLines
mod Ascending
pub mod ReadBack
pub mod Spelled
