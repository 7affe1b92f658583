pub mod Sums
pub mod Shown
pub mod Verdicts
pub mod CertificateFile
pub mod CertificateReading
pub mod steps
