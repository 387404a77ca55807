-- Trees of whole envelopes, rendered with a right checksum.
use Rattle.std.specs.Prelude.{ℕ, ◌≤◌, ◌<◌, List, [], ◌++◌, true, ◌≡◌, eqb}
use Rattle.checksum.specs.Crc.{crc32}
use Rattle.tree.specs.Bytes.{spelled}
use Rattle.tree.specs.Shape.{Carrier, Shape}

-- an envelope: version, minimum, what its payload says, and the spare bytes at the payload's end
pub record Enveloped (T : Type 0) : Type 0 where
  pub version : ℕ
  pub minimum : ℕ
  pub inside : T
  pub spare : List ℕ

-- all bytes before the checksum; the payload's shape may hang on the version
unfoldable pub unsummed : {T C : Type 0} → (ℕ → Shape T C) → Enveloped T → List ℕ
unsummed S e = spelled 2 e.version ++ (spelled 2 e.minimum ++ ((S e.version).render e.inside ++ e.spare))

-- bytes with their checksum after them
unfoldable pub sealed : List ℕ → List ℕ
sealed bs = bs ++ spelled 4 (crc32 bs)

-- the whole envelope
abbrev pub render_envelope : {T C : Type 0} → (ℕ → Shape T C) → Enveloped T → List ℕ
render_envelope S e = sealed (unsummed S e)

-- the envelopes that keep the rules but for their length, where minimum versions up to `supported` are read
pub record Right {T C : Type 0} (supported : ℕ) (K : Carrier T C) (S : ℕ → Shape T C) (e : Enveloped T) : Type 0 where
  pub version_fits : e.version < 65536
  pub least : 1 ≤ e.minimum
  pub order : e.minimum ≤ e.version
  pub read : e.minimum ≤ supported
  pub valid : (S e.version).Valid (K.content e.inside)
  pub plain : eqb e.version e.minimum ≡ true → K.Plain e.inside × (e.spare ≡ [])
