-- The numbers that a header can be refused with.
use Prim.Native.Nat.{ℕ}
use mathlib.Core.Path.{refl}
use mathlib.Core.Bool.{Bool, true}
use mathlib.Core.List.{List}
use lib.Dec.{eqb, leb, ltb}
use lib.ListN.{length, get_or}
use Rattle.numbers.specs.Choice.{pick, both}
use Rattle.wire.specs.Reading.{Step, found, refused, below, listed, tested}
use Rattle.frames.specs.Frames.{at_most, record_of}
use Rattle.envelope.specs.Envelope.{envelope}
use Rattle.column_type.specs.Types.{known, width_of}
use Rattle.records.specs.Records.{repetitive, repetition, field_head, field_texts, field, sized, column, aliased, aliasable, alias, texts}
use Rattle.parents.specs.Parents.{all_reach}
use Rattle.header.specs.Header.{Header, flags_of, aliases_after, columns_after, lists, payload}
use Rattle.header.specs.Tables.{parents_of, endless_fault, chained, header_of}
use Rattle.rows.specs.Words.{most_fields, most_columns, most_aliases}
use Rattle.refusals.specs.Refusals.{among, in_header, HeaderNumbers}
use Rattle.refusals.proofs.Naming.{Named, Naming, named_found, named_refused, named_pick, last_judged, naming_give, naming_here, naming_pick, naming_bind, naming_number, naming_tested, naming_string, naming_features, naming_record, naming_list, judging_most, named_envelope}

naming_below : (k limit : ℕ) → Naming in_header (tested k (below limit))
unfolding among
naming_below k limit = naming_tested refl k (below limit) (λ n. last_judged (ltb n limit) 14 refl)

naming_listed : (k most : ℕ) → Naming in_header (tested k (listed most))
unfolding among
naming_listed k most = naming_tested refl k (listed most) (λ n. last_judged (leb n most) 12 refl)

naming_field : (n : ℕ) → Naming in_header (field n)
unfolding field field_head field_texts repetition among
naming_field n =
    naming_bind _ _
    (naming_bind _ _ (naming_number refl 4) (λ version.
    naming_bind _ _ (naming_number refl 4) (λ type-version.
    naming_bind _ _ (naming_below 4 n) (λ parent.
    naming_bind _ _ (naming_listed 2 4) (λ role.
    naming_bind _ _ (naming_listed 2 3) (λ flags.
    naming_bind _ _ (naming_pick (repetitive flags) (naming_number refl 8) (naming_give 0)) (λ times. naming_give _)))))))
    (λ head.
    naming_bind _ _
    (naming_bind _ _ (naming_string refl _ refl) (λ name.
    naming_bind _ _ (naming_string refl _ refl) (λ type-name.
    naming_bind _ _ (naming_string refl _ refl) (λ type-alias.
    naming_bind _ _ (naming_string refl _ refl) (λ description. naming_give _)))))
    (λ texts. naming_give _))

naming_column : (n : ℕ) → Naming in_header (column n)
unfolding column among
naming_column n =
    naming_bind _ _ (naming_number refl 2) (λ type.
    naming_bind _ _ (naming_tested refl 2 (sized type) (λ b. last_judged (pick (known type) (eqb b (width_of type)) true) 13 refl)) (λ bits.
    naming_bind _ _ (naming_below 4 n) (λ field.
    naming_bind _ _ (naming_listed 4 7) (λ flags. naming_give _))))

naming_alias : (flags : List ℕ) (columns : ℕ) → Naming in_header (alias flags columns)
unfolding alias among
naming_alias flags columns =
    naming_bind _ _ (naming_below 4 columns) (λ c.
    naming_bind _ _ (naming_tested refl 4 (aliasable flags) (λ f. last_judged (both (ltb f (length flags)) (aliased (get_or flags f 0))) 14 refl)) (λ f. naming_give _))

naming_lists : (strict : Bool) → Naming in_header (lists strict)
unfolding lists columns_after aliases_after among
naming_lists strict =
    naming_bind _ _ naming_here (λ fields_at.
    naming_bind _ _ (naming_list refl strict (at_most most_fields) (λ n _. record_of strict (field n)) (judging_most refl most_fields refl) (λ n _. naming_record refl strict (field n) (naming_field n))) (λ fields.
    naming_bind _ _ naming_here (λ columns-at.
    naming_bind _ _ (naming_list refl strict (at_most most_columns) (λ _ _. record_of strict (column (length fields))) (judging_most refl most_columns refl) (λ _ _. naming_record refl strict (column (length fields)) (naming_column (length fields)))) (λ columns.
    naming_bind _ _ naming_here (λ aliases-at.
    naming_bind _ _ (naming_list refl strict (at_most most_aliases) (λ _ _. record_of strict (alias (flags_of fields) (length columns))) (judging_most refl most_aliases refl) (λ _ _. naming_record refl strict (alias (flags_of fields) (length columns)) (naming_alias (flags_of fields) (length columns)))) (λ aliases. naming_give _))))))

naming_texts : Naming in_header texts
unfolding texts among
naming_texts =
    record { at = λ s p. (naming_bind _ _ (naming_features refl refl (length s)) (λ _. naming_bind _ _ (naming_string refl _ refl) (λ name. naming_bind _ _ (naming_string refl _ refl) (λ description. naming_give _)))).at s p }

naming_payload : (strict : Bool) → Naming in_header (payload strict)
unfolding payload
naming_payload strict = naming_bind _ _ naming_texts (λ t. naming_bind _ _ (naming_lists strict) (λ l. naming_give _))

named_chained : (s : List ℕ) (x : Step Header) → Named in_header x → Named in_header (chained s x)
unfolding chained among
named_chained s (found h p) n = named_pick (all_reach (parents_of h.lists.fields) (length h.lists.fields)) named_found (named_refused {g = endless_fault s h.lists} refl)
named_chained s (refused f) n = n

named_header : (e : List ℕ) → Named in_header (header_of e)
unfolding header_of among
named_header e = named_chained _ (envelope 1 payload e) (named_envelope refl 1 payload naming_payload e)

pub header_numbers : HeaderNumbers
unfolding HeaderNumbers
header_numbers e = (named_header e).number
