-- What a call that lists fields left, by its answer.
use Prim.Native.Nat.{ℕ, ◌≤◌, ◌<◌}
use mathlib.Core.Path.{◌≡◌, refl, sym, ap, ◌∙◌}
use mathlib.Core.Logic.{◌⊎◌, inl, inr, ⊎_elim}
use mathlib.Core.List.{List}
use native.Mathlib.Omega.{arith}
use borrow.Author.Tests.{leb-true, leb-false, le-leb, lt-leb}
use lib.Dec.{leb}
use lib.ListN.{length, take, drop}
use lib.Seq.{take_at}
use Rattle.numbers.specs.Rows.{over}
use Rattle.numbers.proofs.Choice.{which}
use Rattle.wire.specs.Reading.{Step, found, refused}
use Rattle.wire.specs.declared.Fault.{Fault}
use Rattle.header.specs.Header.{Header}
use Rattle.header.specs.Tables.{header_of}
use Rattle.listing.specs.Lines.{listing}
use Rattle.listing.specs.Answers.{fitted, placed, answer, left, Answered}
use Rattle.listing.specs.Answer.{ListAnswer}
use Rattle.std.specs.Prelude.{Ok, Err}

-- bytes that fit, and bytes that do not

module _ (room : ℕ) (bytes : List ℕ) where
  pub fits_listed : length bytes ≤ room → fitted room bytes ≡ Ok (length bytes)
  unfolding fitted
  fits_listed fits = rw (le-leb (length bytes) room fits)

  pub few_refused : room < length bytes → fitted room bytes ≡ Err 20
  unfolding fitted
  few_refused few = rw (lt-leb (length bytes) room few)

module _ (out bytes : List ℕ) where
  pub fits_placed : length bytes ≤ length out → placed out bytes ≡ over bytes out
  unfolding placed
  fits_placed fits = rw (le-leb (length bytes) (length out) fits)

  pub few_placed : length out < length bytes → placed out bytes ≡ out
  unfolding placed
  few_placed few = rw (lt-leb (length bytes) (length out) few)

pub fitted_is : (room : ℕ) (bytes : List ℕ) → ((length bytes ≤ room) × (fitted room bytes ≡ Ok (length bytes))) ⊎ ((room < length bytes) × (fitted room bytes ≡ Err 20))
fitted_is room bytes =
    ⊎_elim
    (λ t. let fits = leb-true (length bytes) room t in inl (fits, fits_listed room bytes fits))
    (λ t. let few = leb-false (length bytes) room t in inr (few, few_refused room bytes few))
    (which (leb (length bytes) room))

-- answers told apart

listed_same : {n m : ℕ} → ◌≡◌ {A = ListAnswer} (Ok n) (Ok m) → n ≡ m
listed_same e = cc

pub refused_same : {n m : ℕ} → ◌≡◌ {A = ListAnswer} (Err n) (Err m) → n ≡ m
refused_same e = cc

pub not_both : {n m : ℕ} {r : ListAnswer} → r ≡ Ok n → r ≡ Err m → ⊥
not_both a b = let z : ◌≡◌ {A = ℕ} 0 1 = cc in omega arith

-- a call for an accepted header
module _ {e out out' : List ℕ} {r : ListAnswer} {h : Header} {p : ℕ} (reads : header_of e ≡ found h p) (call : Answered e out out' r) where
  pub call_answers : r ≡ fitted (length out) (listing e h.lists)
  unfolding answer
  call_answers = call.answers ∙ rw reads

  pub call_leaves : out' ≡ placed out (listing e h.lists)
  unfolding left
  call_leaves = call.bytes_are ∙ rw reads

-- a call that listed n bytes: its header was accepted, and they are its listing
pub record CallListed (e out out' : List ℕ) (n : ℕ) : Type 0 where
  pub header : Header
  pub place : ℕ
  pub reads : header_of e ≡ found header place
  pub count : n ≡ length (listing e header.lists)
  pub fits : n ≤ length out
  pub leaves : out' ≡ over (listing e header.lists) out
  -- so they are in front
  pub front : take n out' ≡ listing e header.lists

-- a call that refused by number k left the bytes as they were: the listing of an accepted header did not fit, or the header was refused
pub record CallRefused (e out out' : List ℕ) (k : ℕ) : Type 0 where
  pub leaves : out' ≡ out
  pub why : ((h : Header) × (p : ℕ) × (header_of e ≡ found h p) × (length out < length (listing e h.lists)) × (k ≡ 20))
      ⊎ ((f : Fault) × (header_of e ≡ refused f) × (k ≡ f.number))

module _ (e out out' : List ℕ) where
  pub call_listed : (n : ℕ) → Answered e out out' (Ok n) → CallListed e out out' n
  unfolding answer
  call_listed n call = by (header_of e) refl
    where
      by : (x : Step Header) → header_of e ≡ x → CallListed e out out' n
      by (found h p) reads =
          let bytes = listing e h.lists in
          let is = call_answers reads call in
          ⊎_elim
          (λ t.
          let count : n ≡ length bytes = listed_same (is ∙ t.1) in
          let fits = t.0 in
          let leaves = call_leaves reads call ∙ fits_placed out bytes fits in
          record {
            header = h;
            place = p;
            reads = reads;
            count = count;
            fits = omega arith;
            leaves = leaves;
            front = ap (take n) leaves ∙ take_at bytes (drop (length bytes) out) n (sym count);
          })
          (λ t. absurd (not_both refl (is ∙ t.1)))
          (fitted_is (length out) bytes)
      by (refused f) reads = absurd (not_both refl (call.answers ∙ ap (answer (length out) e) reads))

  pub call_refused : (k : ℕ) → Answered e out out' (Err k) → CallRefused e out out' k
  unfolding answer left
  call_refused k call = by (header_of e) refl
    where
      by : (x : Step Header) → header_of e ≡ x → CallRefused e out out' k
      by (found h p) reads =
          let is = call_answers reads call in
          ⊎_elim (λ t. absurd (not_both (is ∙ t.1) refl))
          (λ t. record { leaves = call_leaves reads call ∙ few_placed out (listing e h.lists) t.0; why = inl (h, p, reads, t.0, refused_same (is ∙ t.1)) })
          (fitted_is (length out) (listing e h.lists))
      by (refused f) reads =
          record { leaves = call.bytes_are ∙ ap (left out e) reads; why = inr (f, reads, refused_same (call.answers ∙ ap (answer (length out) e) reads)) }
