-- What a call of the header reader leaves, by the header that is read.
use Prim.Native.Nat.{ℕ}
use mathlib.Core.List.{List}
use mathlib.Core.Bool.{Bool, true, false}
use mathlib.Core.Path.{◌≡◌, refl, ap, ◌∙◌}
use native.Mathlib.Omega.{arith}
use lib.ListN.{length}
use Rattle.numbers.specs.Choice.{pick}
use Rattle.numbers.specs.Rows.{over}
use Rattle.wire.specs.Reading.{Step, found, refused}
use Rattle.header.specs.Header.{Header}
use Rattle.header.specs.Tables.{header_of, field_table, column_table, alias_table, room_for, answer, written, Answered}
use Rattle.header.specs.declared.HeaderTables.{HeaderTables}
use Rattle.header.specs.Answer.{HeaderAnswer}
use Rattle.std.specs.Prelude.{Ok, Err}

-- the answer for a header that has room
abbrev pub answer_of : Header → HeaderTables
answer_of h =
    record { texts = h.texts; fields = length h.lists.fields; columns = length h.lists.columns; aliases = length h.lists.aliases }

-- what an accepting call was given and left
pub record Called (e f₀ f c₀ c a₀ a : List ℕ) (x : HeaderTables) : Type 0 where
  pub header : Header
  pub place : ℕ
  pub reads : header_of e ≡ found header place
  pub room : room_for (length f₀) (length c₀) (length a₀) header.lists ≡ true
  pub answers : x ≡ answer_of header
  pub fields : f ≡ over (field_table header.lists) f₀
  pub columns : c ≡ over (column_table header.lists) c₀
  pub aliases : a ≡ over (alias_table header.lists) a₀

not_accepted : {B : Type 0} {x : HeaderTables} {n : ℕ} → Ok x ≡ Err n → B
not_accepted e = let z : ◌≡◌ {A = ℕ} 0 1 = cc in absurd (omega arith)

pub accepted_call : (e f₀ f c₀ c a₀ a : List ℕ) (x : HeaderTables) → Answered (header_of e) f₀ f c₀ c a₀ a (Ok x) → Called e f₀ f c₀ c a₀ a x
unfolding answer written
accepted_call e f₀ f c₀ c a₀ a x read = by (header_of e) refl read.answers read.fields_are read.columns_are read.aliases_are
  where
    with_room_lem : (h : Header) (q : ℕ) → header_of e ≡ found h q → (b : Bool) → room_for (length f₀) (length c₀) (length a₀) h.lists ≡ b
        → ◌≡◌ {A = HeaderAnswer} (Ok x) (pick b (Ok (answer_of h)) (Err 20)) → f ≡ pick b (over (field_table h.lists) f₀) f₀
        → c ≡ pick b (over (column_table h.lists) c₀) c₀ → a ≡ pick b (over (alias_table h.lists) a₀) a₀ → Called e f₀ f c₀ c a₀ a x
    with_room_lem h q reads true room r s t u = record {
      header = h;
      place = q;
      reads = reads;
      room = room;
      answers = cc;
      fields = s;
      columns = t;
      aliases = u;
    }
    with_room_lem h q reads false room r s t u = not_accepted r

    by : (y : Step Header) → header_of e ≡ y → Ok x ≡ answer (length f₀) (length c₀) (length a₀) y
        → f ≡ written field_table (length f₀) (length c₀) (length a₀) f₀ y → c ≡ written column_table (length f₀) (length c₀) (length a₀) c₀ y
        → a ≡ written alias_table (length f₀) (length c₀) (length a₀) a₀ y → Called e f₀ f c₀ c a₀ a x
    by (found h q) reads r s t u = with_room_lem h q reads (room_for (length f₀) (length c₀) (length a₀) h.lists) refl r s t u
    by (refused g) reads r s t u = not_accepted r

-- a call for a header that has room accepts
pub roomy_call : (e f₀ f c₀ c a₀ a : List ℕ) (r : HeaderAnswer) (h : Header) (q : ℕ) → header_of e ≡ found h q
    → room_for (length f₀) (length c₀) (length a₀) h.lists ≡ true → Answered (header_of e) f₀ f c₀ c a₀ a r
    → (r ≡ Ok (answer_of h)) × (f ≡ over (field_table h.lists) f₀) × (c ≡ over (column_table h.lists) c₀) × (a ≡ over (alias_table h.lists) a₀)
unfolding answer written
roomy_call e f₀ f c₀ c a₀ a r h q reads room read =
    let F = length f₀ in
    let C = length c₀ in
    let A = length a₀ in
    let r_is : r ≡ Ok (answer_of h) = read.answers ∙ ap (answer F C A) reads ∙ rw room refl in
    let f_is : f ≡ over (field_table h.lists) f₀ = read.fields_are ∙ ap (written field_table F C A f₀) reads ∙ rw room refl in
    let c_is : c ≡ over (column_table h.lists) c₀ = read.columns_are ∙ ap (written column_table F C A c₀) reads ∙ rw room refl in
    let a_is : a ≡ over (alias_table h.lists) a₀ = read.aliases_are ∙ ap (written alias_table F C A a₀) reads ∙ rw room refl in
    (r_is, f_is, c_is, a_is)
