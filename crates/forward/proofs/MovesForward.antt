-- Demand 3 for the call that counts moves.
use Prim.Native.Nat.{ℕ}
use mathlib.Core.List.{List}
use mathlib.Core.Path.{◌≡◌, sym, ap, ◌∙◌}
use Rattle.chain_moves.specs.Moves.{all_moves}
use Rattle.header.specs.Header.{Header}
use Rattle.header.specs.Tables.{header_of, parents_of}
use Rattle.moves.proofs.Laws.{answer_found, answer_sum}
use Rattle.tree.specs.HeaderTree.{HeaderContent, header_content, parents_in}
use Rattle.tree.proofs.HeaderLaws.{parents_same}
use Rattle.forward.specs.MovesForward.{MovesForward}
use Rattle.forward.proofs.HeaderForward.{the_header, still_read}
use Rattle.forward.proofs.Appending.{read_more}
use Rattle.std.specs.Prelude.{Ok}

-- the parents that a header's content has
parents_content : (e : List ℕ) (h : Header) → parents_of h.lists.fields ≡ parents_in (header_content e h).fields
unfolding header_content
parents_content e h = parents_same e h.lists.fields

pub moves_forward : MovesForward
moves_forward e total bytes call =
    let (h, q, reads, is) = answer_sum (header_of e) (sym call.answers) in
    let the = the_header e h q bytes reads in
    let sum : total ≡ all_moves (parents_in (header_content e h).fields) = is ∙ ap all_moves (parents_content e h) in
    record {
      header = the;
      forward = λ new ch small r call'.
          let still = still_read e h q reads the new ch small in
          call'.answers ∙ answer_found still.reads
          ∙ ap Ok (ap all_moves (parents_content _ still.header) ∙ ap (λ (c : HeaderContent). all_moves (parents_in c.fields)) still.contents ∙ sym sum);
      append = λ fields columns a r call'.
          let more = read_more e h q reads the.tree the.right the.bytes fields columns a in
          call'.answers ∙ answer_found more.reads ∙ ap Ok (ap all_moves (parents_content _ more.header) ∙ more.moves_are ∙ sym sum);
    }
