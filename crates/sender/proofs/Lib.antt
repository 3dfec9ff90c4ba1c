mod Wants
mod Offering
mod Reporting
