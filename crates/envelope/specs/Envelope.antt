-- The envelope: version u16, minimum u16, payload, checksum u32.
use Rattle.std.specs.Prelude.{ℕ, ◌-◌, List, Bool, length, take, leb, eqb}
use Rattle.numbers.specs.Choice.{pick, both}
use Rattle.numbers.specs.Numbers.{little}
use Rattle.checksum.specs.Crc.{crc32}
use Rattle.wire.specs.Reading.{Step, found, refused, Rule, fault}
use Rattle.frames.specs.Frames.{closed}
use Rattle.wire.specs.declared.Kind.TheVariants.{Envelope}

abbrev pub ceiling : ℕ
ceiling = 1048576

abbrev pub version_of : List ℕ → ℕ
version_of e = little 2 e 0

-- spare bytes are refused where the version equals the minimum
abbrev pub strict_of : List ℕ → Bool
strict_of e = eqb (version_of e) (little 2 e 2)

-- the checksum that an envelope ends with
abbrev pub checksum_of : List ℕ → ℕ
checksum_of e = little 4 e (length e - 4)

-- what a payload's rule is told of its envelope: the version, and whether spare bytes are refused
pub record Versions : Type 0 where
  pub version : ℕ
  pub strict : Bool

abbrev pub versions_of : List ℕ → Versions
versions_of e = record { version = version_of e; strict = strict_of e }

-- refusals 1 to 5: what the payload's rule is told, and where the payload ends; `supported` is the highest minimum version that
-- is read
unfoldable pub opened : ℕ → List ℕ → Step Versions
opened supported e =
    pick (leb (length e) ceiling)
    (pick (leb 8 (length e))
    (pick (eqb (crc32 (take (length e - 4) e)) (checksum_of e))
    (pick (both (leb 1 (little 2 e 2)) (leb (little 2 e 2) (little 2 e 0)))
    (pick (leb (little 2 e 2) supported)
    (found (versions_of e) (length e - 4))
    (refused (fault 5 Envelope 0)))
    (refused (fault 4 Envelope 0)))
    (refused (fault 3 Envelope 0)))
    (refused (fault 2 Envelope 0)))
    (refused (fault 1 Envelope 0))

-- a payload that ends where its bytes do
abbrev pub whole : {A : Type 0} → Bool → Rule A → Rule A
whole strict r s at = closed strict (length s) (r s at)

-- the payload of an envelope that was opened
abbrev pub enclosed : {A : Type 0} → (Versions → Rule A) → List ℕ → Step Versions → Step A
enclosed r e (found v stop) = whole v.strict (r v) (take stop e) 4
enclosed r e (refused f) = refused f

-- an envelope, with its payload by a rule that is told the version
unfoldable pub versioned : {A : Type 0} → ℕ → (Versions → Rule A) → List ℕ → Step A
versioned supported r e = enclosed r e (opened supported e)

-- the same where one rule serves every version
abbrev pub envelope : {A : Type 0} → ℕ → (Bool → Rule A) → List ℕ → Step A
envelope supported r = versioned supported (λ v. r v.strict)
