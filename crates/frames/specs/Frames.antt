-- Frames: records and lists, each read in the bytes up to its end.
use Rattle.std.specs.Prelude.{ℕ, zero, suc, ◌+◌, ◌-◌, ◌^◌, List, [], ◌∷◌, ◌++◌, Bool, length, take, ltb, leb, eqb}
use Rattle.numbers.specs.Choice.{pick, both}
use Rattle.numbers.specs.Numbers.{little}
use Rattle.wire.specs.Reading.{Step, found, refused, Rule, fault, in_item, after, unless}
use Rattle.wire.specs.declared.Fault.{Fault}
use Rattle.wire.specs.declared.Kind.TheVariants.{Frame, Spare}
use Rattle.frames.specs.declared.ListHead.{ListHead}
use Rattle.frames.specs.declared.FrameSize.{FrameSize}
use Rattle.frames.specs.declared.FrameSize.TheVariants.{RecordSize, ListSize}

-- the content of a container that ends at stop: bytes after it are refused where `strict`, and skipped otherwise
-- (`spare`: there are such bytes, and they are refused)
abbrev pub spare : Bool → ℕ → ℕ → Bool
spare strict p stop = both strict (ltb p stop)

abbrev pub closed_by : {A : Type 0} → (Fault → Fault) → Bool → ℕ → Step A → Step A
closed_by mark strict stop (found a p) = pick (spare strict p stop) (refused (mark (fault 11 Spare p))) (found a stop)
closed_by mark strict stop (refused f) = refused f

abbrev pub closed : {A : Type 0} → Bool → ℕ → Step A → Step A
closed = closed_by (λ f. f)

-- a frame's kind and size, by its size word, a signed number: zero or positive for a record; negative for a list, whose size
-- is its absolute value
unfoldable pub frame_size : ℕ → FrameSize
frame_size word = pick (ltb word (2 ^ 31)) (RecordSize word) (ListSize (2 ^ 32 - word))

-- where a frame's content starts and the frame stops, where its size is at least its head's and its container has room
abbrev pub frame_end : ℕ → List ℕ → ℕ → ℕ → Step ℕ
frame_end head s at size =
    pick (leb head size)
    (pick (leb (at + size) (length s)) (found (at + head) (at + size)) (refused (fault 7 Frame at)))
    (refused (fault 8 Frame at))

abbrev pub record_end : List ℕ → ℕ → FrameSize → Step ℕ
record_end s at (RecordSize size) = frame_end 4 s at size
record_end s at (ListSize size) = refused (fault 8 Frame at)

abbrev pub list_end : List ℕ → ℕ → FrameSize → Step ℕ
list_end s at (RecordSize size) = refused (fault 8 Frame at)
list_end s at (ListSize size) = frame_end 8 s at size

-- a record frame's head: where its content starts, and where the frame stops
unfoldable pub record_head : Rule ℕ
record_head s at =
    pick (leb (at + 4) (length s)) (record_end s at (frame_size (little 4 s at))) (refused (fault 7 Frame at))

-- the content of a record frame, which is read in the bytes up to the frame's end
abbrev pub record_body : {A : Type 0} → Bool → Rule A → List ℕ → Step ℕ → Step A
record_body strict r s (found start stop) = closed strict stop (r (take stop s) start)
record_body strict r s (refused f) = refused f

-- a record frame around a content
unfoldable pub record_of : {A : Type 0} → Bool → Rule A → Rule A
record_of strict r s at = record_body strict r s (record_head s at)

-- where a list frame's items start, and where the frame stops
unfoldable pub list_stop : Rule ℕ
list_stop s at =
    pick (leb (at + 4) (length s)) (list_end s at (frame_size (little 4 s at))) (refused (fault 7 Frame at))

-- a list's count word: the reserved bits are 0
abbrev pub list_count : List ℕ → ℕ → Step ℕ → Step ListHead
list_count s at (found start stop) =
    pick (ltb (little 4 s (at + 4)) (2 ^ 28)) (found (record { count = little 4 s (at + 4); start = start }) stop) (refused (fault 8 Frame at))
list_count s at (refused f) = refused f

-- a verdict on a count: at most so many
abbrev pub at_most : ℕ → ℕ → ℕ
at_most most n = unless (leb n most) 10 0

-- a verdict on the count of a list at a place
unfoldable pub count_judged : (ℕ → ℕ) → ℕ → Step ListHead → Step ListHead
count_judged verdict at (found h p) =
    pick (eqb (verdict h.count) 0) (found h p) (refused (fault (verdict h.count) Frame at))
count_judged verdict at (refused f) = refused f

-- a list frame's head: how many items, with a verdict on the count, where they start, and where the frame stops
abbrev pub list_head : (ℕ → ℕ) → Rule ListHead
list_head verdict s at = count_judged verdict at (list_count s at (list_stop s at))

abbrev pub within : {A : Type 0} → ℕ → ℕ → Step A → Step A
within head i (found a p) = found a p
within head i (refused f) = refused (in_item head i f)

-- n more items of the list at head, after those done; the rule of an item may look at the items before it
unfoldable pub items : {A : Type 0} → ℕ → (List A → Rule A) → ℕ → List A → Rule (List A)
items head r zero done s at = found done at
items head r (suc n) done s at =
    after (λ x. items head r n (done ++ (x ∷ []))) s (within head (length done) (r done s at))

-- the items of a list frame, which are read in the bytes up to the frame's end
abbrev pub list_body : {A : Type 0} → Bool → (ℕ → List A → Rule A) → List ℕ → ℕ → Step ListHead → Step (List A)
list_body strict r s at (found h stop) =
    closed_by (in_item at h.count) strict stop (items at (r h.count) h.count [] (take stop s) h.start)
list_body strict r s at (refused f) = refused f

-- a list frame; the rule of an item knows the count and the items before it
unfoldable pub list_of : {A : Type 0} → Bool → (ℕ → ℕ) → (ℕ → List A → Rule A) → Rule (List A)
list_of strict verdict r s at = list_body strict r s at (list_head verdict s at)
