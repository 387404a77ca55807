use Rattle.std.proofs.Common.{◌≡◌, ℕ, ◌*◌, ◌/◌, ◌%◌, ◌^◌, Bool, List, length, ap, ◌∙◌, mul_comm, arith}
use Rattle.coding.specs.Layout.{planes}
use Rattle.split_pages.specs.Split.{codes}
use Rattle.coding.proofs.Planes.{length_planes}
use Rattle.split_pages.proofs.Codes.{length_codes}
use Rattle.coding.proofs.Places.{byte_split}
use Rattle.planes.proofs.Filling.{fill_turn, fill_done}
use Rattle.split_pages.proofs.write.write_few.Goals as goal

-- how many bytes the planes have
length_page : (delta zigzag : Bool) (w : ℕ) (words : List ℕ) → length (planes (w / 8) (codes delta zigzag w 0 words)) ≡ length words * (w / 8)
length_page delta zigzag w words =
    length_planes (w / 8) (codes delta zigzag w 0 words) ∙ ap (λ (n : ℕ). w / 8 * n) (length_codes delta zigzag w 0 words) ∙ mul_comm (w / 8) (length words)

pub loop-p-preserved : goal.loop-p-preserved
loop-p-preserved c = let a = c.args in
    let l = c.loop-p in
    let n : ℕ = length a.words.now in
    let page : List ℕ = planes (a.width / 8) (codes a.delta a.zigzag a.width 0 a.words.now) in
    let size = length_page a.delta a.zigzag a.width a.words.now in
    fill_turn page a.out.now l.out l.p c.byte_of.result l.invariant (omega arith) (omega arith)
    (c.byte_of.ensures ∙ ap (λ (x : ℕ). x / 256 ^ (l.p / n) % 256) c.code_at.ensures
    ∙ byte_split (a.width / 8) (codes a.delta a.zigzag a.width 0 a.words.now) n l.p (length_codes a.delta a.zigzag a.width 0 a.words.now) c.loop-p-test.true)

pub returns : goal.returns
returns c = let a = c.args in
    let size = length_page a.delta a.zigzag a.width a.words.now in
    c.loop-p.invariant.0 ∙ fill_done (planes (a.width / 8) (codes a.delta a.zigzag a.width 0 a.words.now)) a.out.now c.loop-p.p (omega arith)
