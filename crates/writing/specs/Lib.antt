-- What words can be laid out, and where the private writers stand.
pub mod Cursors
pub mod Fits
