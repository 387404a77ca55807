-- What a call's answer says in document 01's terms, whatever enum it is.
use Rattle.std.specs.Prelude.{ℕ, ◌+◌, ◌*◌, ◌/◌, ◌%◌, ◌≤◌, ◌<◌, List, Bool, ◌≡◌, eqb, replicate}

-- the envelope and the number of a refusal, both 0 where there is none, and the counts
pub record Outcome : Type 0 where
  pub envelope : ℕ
  pub number : ℕ
  pub counts : List ℕ

abbrev pub accepted_with : List ℕ → Outcome
accepted_with counts = record { envelope = 0; number = 0; counts = counts }

-- a refusal in an envelope, by its number, with so many counts, all of them 0
abbrev pub refused_in : ℕ → ℕ → ℕ → Outcome
refused_in envelope number k = record { envelope = envelope; number = number; counts = replicate k 0 }

-- acceptance names no envelope
abbrev pub is_accepted : Outcome → Bool
is_accepted o = eqb o.envelope 0

-- the outcome as one number: 0 for acceptance
abbrev pub code_of : Outcome → ℕ
code_of o = 256 * o.envelope + o.number

-- envelopes are numbered from 1 to 4, so that a refusal is never taken for an acceptance
unfoldable pub RefusalTells : Type 0
RefusalTells = (envelope number k : ℕ) (counts : List ℕ) → 1 ≤ envelope → refused_in envelope number k ≡ accepted_with counts → ⊥

-- the one number gives the envelope and the number back
unfoldable pub CodeTells : Type 0
CodeTells = (o : Outcome) → o.number < 256 → (code_of o / 256 ≡ o.envelope) × (code_of o % 256 ≡ o.number)
