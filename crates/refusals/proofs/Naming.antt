-- Rules that refuse with listed numbers only: numbers, strings, frames and envelopes, whatever their content, as soon as that does.
use Prim.Native.Nat.{ℕ, zero, suc, ◌+◌, ◌-◌, ◌%◌, ◌^◌}
use mathlib.Core.Path.{◌≡◌, refl, sym, ◌∙◌, ap}
use mathlib.Core.Bool.{Bool, true, false}
use mathlib.Core.List.{List, [], ◌∷◌, ◌++◌}
use native.Mathlib.Omega.{arith}
use lib.Dec.{eqb, leb, ltb}
use borrow.Author.Tests.{eqb-true}
use lib.ListN.{length, take, drop}
use Rattle.numbers.specs.Choice.{pick, both}
use Rattle.numbers.specs.Numbers.{little}
use Rattle.checksum.specs.Crc.{crc32}
use Rattle.wire.specs.declared.Fault.{Fault}
use Rattle.wire.specs.declared.Kind.{Kind}
use Rattle.wire.specs.declared.Kind.TheVariants.{Number, Text, Frame, Spare, Envelope}
use Rattle.wire.specs.Reading.{Step, found, refused, Rule, after, ◌>>=◌, give, here, fault, unless, number, judged, tested, in_item}
use Rattle.locator.specs.Locator.{stored_as, in_file, located}
use Rattle.wire.proofs.Laws.{never}
use Rattle.frames.specs.declared.FrameSize.{FrameSize}
use Rattle.frames.specs.declared.FrameSize.TheVariants.{RecordSize, ListSize}
use Rattle.frames.specs.declared.ListHead.{ListHead}
use Rattle.frames.specs.Frames.{at_most, spare, closed_by, frame_size, frame_end, record_end, record_head, record_body, record_of, list_end, list_stop, list_count, count_judged, list_head, within, items, list_body, list_of}
use Rattle.text.specs.Strings.{string_of}
use Rattle.envelope.specs.Features.{features, feature_bits}
use Rattle.envelope.specs.Envelope.{ceiling, checksum_of, opened, enclosed, versioned, envelope, Versions}
use Rattle.refusals.specs.Refusals.{among}

-- lists of numbers

pub no : {B : Type 0} → false ≡ true → B
no e = let z : ◌≡◌ {A = ℕ} 0 1 = cc in absurd (omega arith)

-- one more number takes none away
pub among_more : (m : ℕ) (ns : List ℕ) (n : ℕ) → among ns n ≡ true → among (m ∷ ns) n ≡ true
unfolding among
among_more m ns n h = by (eqb n m)
  where
    by : (b : Bool) → pick b true (among ns n) ≡ true
    by true = refl
    by false = h

-- each of these is one of those
abbrev pub includes : List ℕ → List ℕ → Bool
includes ns [] = true
includes ns (m ∷ ms) = both (among ns m) (includes ns ms)

pub included : (ns ms : List ℕ) (n : ℕ) → includes ns ms ≡ true → among ms n ≡ true → among ns n ≡ true
unfolding among
included ns [] n h a = no a
included ns (m ∷ ms) n h a = by (included ns ms n) (among ns m) refl h (eqb n m) refl a
  where
    by : (includes ns ms ≡ true → among ms n ≡ true → among ns n ≡ true) → (b : Bool) → among ns m ≡ b → both b (includes ns ms) ≡ true
        → (c : Bool) → eqb n m ≡ c → pick c true (among ms n) ≡ true → among ns n ≡ true
    by later true k h true e a = ap (among ns) (eqb-true n m e) ∙ k
    by later true k h false e a = later h a
    by later false k h c e a = no h

-- a step that is refused with none but these numbers
pub record Named {A : Type 0} (ns : List ℕ) (x : Step A) : Type 0 where
  pub number : (f : Fault) → x ≡ refused f → among ns f.number ≡ true

-- a rule all of whose steps are
pub record Naming {A : Type 0} (ns : List ℕ) (r : Rule A) : Type 0 where
  pub at : (s : List ℕ) (p : ℕ) → Named ns (r s p)

-- what a verdict gives: 0, or one of these numbers
pub record Judged (ns : List ℕ) (n : ℕ) : Type 0 where
  pub is : among (0 ∷ ns) n ≡ true

-- the numbers that every envelope can be refused with: its own checks, and those of its frames
abbrev everywhere : List ℕ
everywhere = 1 ∷ 2 ∷ 3 ∷ 4 ∷ 5 ∷ 7 ∷ 8 ∷ 11 ∷ []

-- a refusal inside an item keeps its number

same_number_lem : (head i : ℕ) (f : Fault) → (in_item head i f).number ≡ f.number
unfolding in_item
same_number_lem head i f = by (eqb f.list 0)
  where
    by : (b : Bool) → (pick b (record { number = f.number; place = f.place; kind = f.kind; list = head; item = i }) f).number ≡ f.number
    by true = refl
    by false = refl

module _ {ns : List ℕ} where
  pub named_found : {A : Type 0} {a : A} {p : ℕ} → Named ns (found a p)
  named_found = record { number = λ f e. never (sym e) }

  pub named_refused : {A : Type 0} {g : Fault} → among ns g.number ≡ true → Named {A = A} ns (refused g)
  named_refused {A} {g} h = record { number = λ f e. let same : g ≡ f = cc in rw same at h }

  pub named_pick : {A : Type 0} (b : Bool) {x y : Step A} → Named ns x → Named ns y → Named ns (pick b x y)
  named_pick true n m = n
  named_pick false n m = m

  -- a value with a verdict on a number
  named_judged : {A : Type 0} (v : ℕ) (a : A) (p q : ℕ) (kind : Kind) → Judged ns v → Named ns (pick (eqb v 0) (found a p) (refused (fault v kind q)))
  unfolding among
  named_judged {A} v a p q kind h = by (eqb v 0) h.is
    where
      by : (b : Bool) → pick b true (among ns v) ≡ true → Named {A = A} ns (pick b (found a p) (refused (fault v kind q)))
      by true h = named_found
      by false h = named_refused h

  pub unless_judged : (b : Bool) (n rest : ℕ) → among ns n ≡ true → Judged ns rest → Judged ns (unless b n rest)
  unless_judged true n rest h k = k
  unless_judged false n rest h k = record { is = among_more 0 ns n h }

  -- the last test of a verdict
  pub last_judged : (b : Bool) (n : ℕ) → among ns n ≡ true → Judged ns (unless b n 0)
  unfolding among
  last_judged b n h = unless_judged b n 0 h (record { is = refl })

  -- sequence

  pub naming_give : {A : Type 0} (a : A) → Naming ns (give a)
  naming_give a = record { at = λ s p. named_found }

  pub naming_here : Naming ns here
  naming_here = record { at = λ s p. named_found }

  pub naming_pick : {A : Type 0} (b : Bool) {r q : Rule A} → Naming ns r → Naming ns q → Naming ns (pick b r q)
  naming_pick true n m = n
  naming_pick false n m = m

  pub naming_bind : {A B : Type 0} (r : Rule A) (k : A → Rule B) → Naming ns r → ((a : A) → Naming ns (k a)) → Naming ns (r >>= k)
  naming_bind {A} {B} r k n m = record { at = λ s p. by s (r s p) (n.at s p) }
    where
      by : (s : List ℕ) (x : Step A) → Named ns x → Named ns (after k s x)
      by s (found a p) h = (m a).at s p
      by s (refused f) h = named_refused (h.number f refl)

  named_within : {A : Type 0} (head i : ℕ) (x : Step A) → Named ns x → Named ns (within head i x)
  named_within head i (found a p) n = named_found
  named_within head i (refused f) n = named_refused (ap (among ns) (same_number_lem head i f) ∙ n.number f refl)

  naming_items : {A : Type 0} (head : ℕ) (r : List A → Rule A) → ((done : List A) → Naming ns (r done)) → (n : ℕ) (done : List A) → Naming ns (items head r n done)
  unfolding items
  naming_items head r h zero done = record { at = λ s at. named_found }
  naming_items head r h (suc n) done =
      naming_bind (λ s at. within head (length done) (r done s at)) _
      (record { at = λ s at. named_within head (length done) (r done s at) ((h done).at s at) })
      (λ x. naming_items head r h n (done ++ (x ∷ [])))

  module _ (common : includes ns everywhere ≡ true) where
    named_fault : {A : Type 0} (n : ℕ) (kind : Kind) (p : ℕ) → among everywhere n ≡ true → Named {A = A} ns (refused (fault n kind p))
    named_fault n kind p h = named_refused (included ns everywhere n common h)

    -- numbers

    pub naming_number : (k : ℕ) → Naming ns (number k)
    unfolding number among
    naming_number k = record { at = λ s p. named_pick (leb (p + k) (length s)) named_found (named_fault 7 Number p refl) }

    pub naming_tested : (k : ℕ) (verdict : ℕ → ℕ) → ((v : ℕ) → Judged ns (verdict v)) → Naming ns (tested k verdict)
    unfolding judged
    naming_tested k verdict h = record { at = λ s p. by p (number k s p) ((naming_number k).at s p) }
      where
        by : (p : ℕ) (x : Step ℕ) → Named ns x → Named ns (judged verdict p x)
        by p (found v q) n = named_judged (verdict v) v q p Number (h v)
        by p (refused f) n = named_refused (n.number f refl)

    pub naming_located : {A : Type 0} (file size behind : ℕ) (rest : ℕ → ℕ → Rule A) → among ns 17 ≡ true → among ns 18 ≡ true
        → ((stored offset : ℕ) → Naming ns (rest stored offset)) → Naming ns (located file size behind rest)
    naming_located file size behind rest h k n =
        naming_bind _ _ (naming_tested 4 (stored_as size) (λ w. unless_judged (ltb w (2 ^ 31)) 17 (unless (eqb w size) 17 0) h (last_judged (eqb w size) 17 h))) (λ stored.
        naming_bind _ _ (naming_tested 8 (in_file file stored behind) (λ o. last_judged (leb (o + stored + behind) file) 18 k)) (λ offset. n stored offset))

    pub naming_string : (good : List ℕ → Bool) → among ns 9 ≡ true → Naming ns (string_of good)
    unfolding string_of among
    naming_string good h =
        record {
          at = λ s p.
              named_pick (leb (p + 4) (length s))
              (named_pick (leb (p + 4 + little 4 s p) (length s)) (named_pick (good (take (little 4 s p) (drop (p + 4) s))) named_found (named_refused h)) (named_fault 7 Text p refl))
              (named_fault 7 Text p refl);
        }

    pub naming_features : among ns 6 ≡ true → (most : ℕ) → Naming ns (features most)
    unfolding features among
    naming_features h zero = record { at = λ s p. named_fault 7 Number p refl }
    naming_features h (suc most) =
        record {
          at = λ s p.
              (naming_bind _ _ (naming_tested 8 feature_bits (λ w. last_judged (eqb (w % 2 ^ 63) 0) 6 h))
              (λ w. naming_pick (eqb w 0) (naming_give tt) (naming_features h most))).at s p;
        }

    -- frames

    named_closed : {A : Type 0} (mark : Fault → Fault) → ((f : Fault) → (mark f).number ≡ f.number) → (strict : Bool) (stop : ℕ) (x : Step A) → Named ns x → Named ns (closed_by mark strict stop x)
    unfolding among
    named_closed mark same strict stop (found a p) n =
        named_pick (spare strict p stop) (named_refused (ap (among ns) (same (fault 11 Spare p)) ∙ included ns everywhere 11 common refl)) named_found
    named_closed mark same strict stop (refused f) n = n

    named_end : (head : ℕ) (s : List ℕ) (at size : ℕ) → Named ns (frame_end head s at size)
    unfolding among
    named_end head s at size =
        named_pick (leb head size) (named_pick (leb (at + size) (length s)) named_found (named_fault 7 Frame at refl)) (named_fault 8 Frame at refl)

    naming_record_head : Naming ns record_head
    unfolding record_head among
    naming_record_head =
        record { at = λ s at. named_pick (leb (at + 4) (length s)) (by s at (frame_size (little 4 s at))) (named_fault 7 Frame at refl) }
      where
        by : (s : List ℕ) (at : ℕ) (size : FrameSize) → Named ns (record_end s at size)
        by s at (RecordSize size) = named_end 4 s at size
        by s at (ListSize size) = named_fault 8 Frame at refl

    pub naming_record : {A : Type 0} (strict : Bool) (r : Rule A) → Naming ns r → Naming ns (record_of strict r)
    unfolding record_of
    naming_record {A} strict r n = record { at = λ s at. by s (record_head s at) (naming_record_head.at s at) }
      where
        by : (s : List ℕ) (x : Step ℕ) → Named ns x → Named ns (record_body strict r s x)
        by s (found start stop) h = named_closed (λ f. f) (λ f. refl) strict stop (r (take stop s) start) (n.at (take stop s) start)
        by s (refused f) h = named_refused (h.number f refl)

    naming_list_stop : Naming ns list_stop
    unfolding list_stop among
    naming_list_stop =
        record { at = λ s at. named_pick (leb (at + 4) (length s)) (by s at (frame_size (little 4 s at))) (named_fault 7 Frame at refl) }
      where
        by : (s : List ℕ) (at : ℕ) (size : FrameSize) → Named ns (list_end s at size)
        by s at (RecordSize size) = named_fault 8 Frame at refl
        by s at (ListSize size) = named_end 8 s at size

    naming_list_head : (verdict : ℕ → ℕ) → ((v : ℕ) → Judged ns (verdict v)) → Naming ns (list_head verdict)
    unfolding count_judged among
    naming_list_head verdict h = record { at = λ s at. judged_count at (list_count s at (list_stop s at)) (counted_head s at (list_stop s at) (naming_list_stop.at s at)) }
      where
        counted_head : (s : List ℕ) (at : ℕ) (x : Step ℕ) → Named ns x → Named ns (list_count s at x)
        counted_head s at (found start stop) n = named_pick (ltb (little 4 s (at + 4)) (2 ^ 28)) named_found (named_fault 8 Frame at refl)
        counted_head s at (refused f) n = named_refused (n.number f refl)

        judged_count : (at : ℕ) (x : Step ListHead) → Named ns x → Named ns (count_judged verdict at x)
        judged_count at (found l p) n = named_judged (verdict l.count) l p at Frame (h l.count)
        judged_count at (refused f) n = n

    pub naming_list : {A : Type 0} (strict : Bool) (verdict : ℕ → ℕ) (r : ℕ → List A → Rule A) → ((v : ℕ) → Judged ns (verdict v)) → ((n : ℕ) (done : List A) → Naming ns (r n done)) → Naming ns (list_of strict verdict r)
    unfolding list_of
    naming_list strict verdict r v h = record { at = λ s at. by s at (list_head verdict s at) ((naming_list_head verdict v).at s at) }
      where
        by : (s : List ℕ) (at : ℕ) (x : Step ListHead) → Named ns x → Named ns (list_body strict r s at x)
        by s at (found l stop) n =
            named_closed (in_item at l.count) (same_number_lem at l.count) strict stop (items at (r l.count) l.count [] (take stop s) l.start)
            ((naming_items at (r l.count) (h l.count) l.count []).at (take stop s) l.start)
        by s at (refused f) n = named_refused (n.number f refl)

    pub judging_most : (most : ℕ) → among ns 10 ≡ true → (n : ℕ) → Judged ns (at_most most n)
    judging_most most h n = last_judged (leb n most) 10 h

    -- envelopes

    named_opened : (supported : ℕ) (e : List ℕ) → Named ns (opened supported e)
    unfolding opened among
    named_opened supported e =
        named_pick (leb (length e) ceiling)
        (named_pick (leb 8 (length e))
        (named_pick (eqb (crc32 (take (length e - 4) e)) (checksum_of e))
        (named_pick (both (leb 1 (little 2 e 2)) (leb (little 2 e 2) (little 2 e 0)))
        (named_pick (leb (little 2 e 2) supported)
        named_found
        (named_fault 5 Envelope 0 refl))
        (named_fault 4 Envelope 0 refl))
        (named_fault 3 Envelope 0 refl))
        (named_fault 2 Envelope 0 refl))
        (named_fault 1 Envelope 0 refl)

    pub named_versioned : {A : Type 0} (supported : ℕ) (r : Versions → Rule A) → ((v : Versions) → Naming ns (r v)) → (e : List ℕ) → Named ns (versioned supported r e)
    unfolding versioned
    named_versioned supported r n e = by (opened supported e) (named_opened supported e)
      where
        by : (x : Step Versions) → Named ns x → Named ns (enclosed r e x)
        by (found v stop) h =
            named_closed (λ f. f) (λ f. refl) v.strict (length (take stop e)) (r v (take stop e) 4) ((n v).at (take stop e) 4)
        by (refused f) h = named_refused (h.number f refl)

    pub named_envelope : {A : Type 0} (supported : ℕ) (r : Bool → Rule A) → ((strict : Bool) → Naming ns (r strict)) → (e : List ℕ) → Named ns (envelope supported r e)
    named_envelope supported r n = named_versioned supported (λ v. r v.strict) (λ v. n v.strict)
