-- Demand 3 for the call that lists fields.
use Prim.Native.Nat.{ℕ}
use mathlib.Core.List.{List, ◌++◌}
use mathlib.Core.Path.{◌≡◌, sym, ap, ◌∙◌}
use lib.ListN.{length, take}
use Rattle.wire.specs.Reading.{found}
use Rattle.header.specs.Header.{Header}
use Rattle.header.specs.Tables.{header_of}
use Rattle.listing.specs.Lines.{listing}
use Rattle.listing.specs.Answers.{fitted, placed, Answered}
use Rattle.listing.specs.Answer.{ListAnswer}
use Rattle.listing.proofs.CallLaws.{call_answers, call_leaves, call_listed}
use Rattle.tree.specs.HeaderTree.{header_content}
use Rattle.forward.specs.HeaderAppend.{field_count}
use Rattle.forward.specs.ListingForward.{appended_lines, ListsBytes, ListingForward}
use Rattle.forward.proofs.HeaderForward.{the_header, still_read}
use Rattle.forward.proofs.Appending.{read_more}
use Rattle.forward.proofs.Lines.{listed, listing_content}

-- a call for an accepted header lists its listing
lists : {e bytes out₀ out : List ℕ} {r : ListAnswer} {h : Header} {p : ℕ} → header_of e ≡ found h p → listing e h.lists ≡ bytes → Answered e out₀ out r → ListsBytes bytes out₀ out r
lists {out₀ = out₀} reads is call =
    record { answers = call_answers reads call ∙ ap (fitted (length out₀)) is; bytes_are = call_leaves reads call ∙ ap (placed out₀) is }

pub listing_forward : ListingForward
listing_forward e out₀ out n bytes call =
    let old = call_listed e out₀ out n call in
    let h = old.header in
    let q = old.place in
    let the = the_header e h q bytes old.reads in
    let same : listed (header_content e h) ≡ take n out = sym (listing_content e old.reads) ∙ sym old.front in
    record {
      header = the;
      count = ap length old.front ∙ sym old.count;
      forward = λ new ch small out₁ out' r call'.
          let still = still_read e h q old.reads the new ch small in
          lists still.reads (listing_content _ still.reads ∙ ap listed still.contents ∙ same) call';
      append = λ fields columns a out₁ out' r call'.
          let more = read_more e h q old.reads the.tree the.right the.bytes fields columns a in
          lists more.reads (listing_content _ more.reads ∙ more.lines_are ∙ ap (λ (l : List ℕ). l ++ appended_lines (field_count the.tree) fields columns) same) call';
    }
