-- The acts tell who takes part; the proof stands with the definitions, for crates that build on it.
pub use Rattle.apple_session.specs.Acts.{acts_tell}
