pub mod Freeze
