-- The version of the library.
use Rattle.std.specs.Prelude.{ℕ, ◌+◌, ◌*◌}

-- a version as one number: a thousand patches make a minor version, a thousand of these a major one
abbrev pub version_number : ℕ → ℕ → ℕ → ℕ
version_number major minor patch = major * 1000000 + minor * 1000 + patch
