-- What is printed, by what was found out.
use Prim.Native.Nat.{ℕ, ◌≤◌, ◌<◌}
use mathlib.Core.Path.{◌≡◌, sym, ap, subst, ◌∙◌}
use mathlib.Core.Logic.{⊎_elim}
use mathlib.Core.List.{List}
use native.Mathlib.Omega.{arith}
use borrow.Author.Tests.{le-leb, lt-leb}
use lib.ListN.{length, take, drop, length-append}
use lib.Seq.{take-append_seam}
use Rattle.io.specs.Counts.{IsPrefixLen}
use Rattle.wire.specs.Reading.{Step, found}
use Rattle.header.specs.Header.{Header}
use Rattle.header.specs.Tables.{header_of}
use Rattle.report.specs.Line.{line_of, refused_line}
use Rattle.report.specs.Program.{most_bytes, printed as printedLine}
use Rattle.report.specs.declared.Line.{Line}
use Rattle.listing.specs.Lines.{listing}
use Rattle.listing.specs.Answers.{Answered}
use Rattle.listing.specs.Answer.{ListAnswer}
use Rattle.listing.proofs.CallLaws.{call_listed, call_refused}
use Rattle.list_report.specs.Printed.{shown_for, printed, Prints}
use Rattle.std.specs.Prelude.{Ok, Err}

pub prints_counts : {bytes old new : List ℕ} {r : ℕ} → Prints bytes old new r → IsPrefixLen r new
prints_counts {bytes} {old} {new} {r} p =
    let long = ap length p.stands ∙ length-append bytes (drop (length bytes) old) in
    let many = p.many in
    let front : take r new ≡ bytes = (λ i. take (p.many i) (p.stands i)) ∙ take-append_seam bytes (drop (length bytes) old) in
    (omega arith, many ∙ sym (ap length front))

-- a line of these bytes
pub prints_line : {line : Line} (bytes : List ℕ) {old new : List ℕ} {r : ℕ} → line ≡ line_of bytes → Prints (take line.len line.bytes) old new r → Prints bytes old new r
prints_line {line} bytes {old} {new} {r} e p =
    let same : take line.len line.bytes ≡ bytes = (λ i. take (e i).len (e i).bytes) ∙ take-append_seam bytes _ in
    subst (λ (l : List ℕ). Prints l old new r) same p

-- over bytes that were as they were before
pub prints_over : {bytes old old' new : List ℕ} {r : ℕ} → old ≡ old' → Prints bytes old new r → Prints bytes old' new r
prints_over {bytes} {new = new} {r} e p = subst (λ (l : List ℕ). Prints bytes l new r) e p

-- more input than is read
pub longer_same : (input : List ℕ) → most_bytes < length input → printedLine input ≡ printed input
unfolding printedLine printed
longer_same input l = rw (lt-leb (length input) most_bytes l)

-- for a header that is not longer, by what was read
is_shown : (e : List ℕ) → length e ≤ most_bytes → {x : Step Header} → header_of e ≡ x → shown_for e x ≡ printed e
unfolding printed
is_shown e short reads = ap (shown_for e) (sym reads) ∙ rw (le-leb (length e) most_bytes short)

-- and by what the call for it answers
module _ (e : List ℕ) (short : length e ≤ most_bytes) (out₀ : List ℕ) {out : List ℕ} (room : length out₀ ≡ most_bytes) where
  pub listed_prints : {r : ListAnswer} (n : ℕ) → r ≡ Ok n → Answered e out₀ out r → Prints (printed e) out₀ out n
  unfolding shown_for
  listed_prints n is a =
      let c = call_listed e out₀ out n (subst (Answered e out₀ out) is a) in
      let bytes = listing e c.header.lists in
      let fits = c.fits in
      let count = c.count in
      let shown : shown_for e (found c.header c.place) ≡ bytes = rw (le-leb (length bytes) most_bytes (omega arith)) in
      subst (λ (l : List ℕ). Prints l out₀ out n) (sym shown ∙ is_shown e short c.reads) (record { many = count; stands = c.leaves })

  pub refused_prints : {r : ListAnswer} (n : ℕ) → r ≡ Err n → Answered e out₀ out r → (refused_line n ≡ printed e) × (out ≡ out₀)
  unfolding shown_for
  refused_prints n is a =
      let c = call_refused e out₀ out n (subst (Answered e out₀ out) is a) in
      let line : refused_line n ≡ printed e
      = ⊎_elim
      (λ w.
      let (h, p, reads, few, number) = w in
      let bytes = listing e h.lists in
      let shown : shown_for e (found h p) ≡ refused_line 20 = rw (lt-leb (length bytes) most_bytes (omega arith)) in
      ap (λ (k : ℕ). refused_line k) number ∙ sym shown ∙ is_shown e short reads)
      (λ w. let (f, reads, number) = w in ap (λ (k : ℕ). refused_line k) number ∙ is_shown e short reads)
      c.why in
      (line, c.leaves)
