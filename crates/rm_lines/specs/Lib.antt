pub mod Results
pub mod Cuts
pub mod Numbers
pub mod Lines
pub mod Submissions
