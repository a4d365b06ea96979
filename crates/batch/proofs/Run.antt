-- Laws of what a lent run holds, of `recording`, where the definitions stand.
pub use Rattle.recording.proofs.Run.{left, all_left, none_left, one_left, goes_further, half}
