-- What a lent run of recorded operations holds, and where it ends. Document 02, "Two"; docs/MANUAL.md, "Batches". The definitions stand
-- in `recording.Run`, since what compares recordings needs them too.
pub use Rattle.recording.specs.Run.{then_on, read_from, readings, place_after}
