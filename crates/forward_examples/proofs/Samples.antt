-- The laws are not empty: the smallest header, one with a byte added, and one with a field.
use Prim.Native.Nat.{ℕ}
use mathlib.Core.List.{[], ◌∷◌}
use mathlib.Core.Path.{◌≡◌, refl}
use native.Mathlib.Omega.{arith}
use lib.ListN.{length}
use Rattle.utf8.specs.WellFormed.{due, goes_on, well_formed}
use Rattle.column_type.specs.Types.{known, width_of, widths}
use Rattle.parents.specs.Parents.{all_reach}
use Rattle.rows.specs.declared.ColumnRow.{ColumnRow}
use Rattle.tree.specs.Bytes.{spelled}
use Rattle.tree.specs.Shape.{Framed}
use Rattle.tree.specs.EnvelopeTree.{unsummed, sealed}
use Rattle.tree.specs.HeaderTree.{FieldContent, Frames, feature_words, texts_shape, lists_shape, payload_shape, head_shape, strings_shape, field_shape, column_shape, HeaderTree, render_header, RightHeader}
use Rattle.tree.proofs.HeaderLaws.{header_complete, ReadHeader}
use Rattle.forward.specs.Extension.{none, GrownList, GrownFrame, extended}
use Rattle.forward.specs.HeaderForward.{GrownPayload, ChosenHeader}
use Rattle.forward.specs.HeaderAppend.{appended, Appendix}
use Rattle.forward.proofs.HeaderForward.{chosen_right}
use Rattle.forward.proofs.Appending.{appended_right}

abbrev pub no_items_lem : {C : Type 0} → Frames C
no_items_lem = record { inside = []; spare = [] }

abbrev pub smallest : HeaderTree
smallest = record {
  version = 1;
  minimum = 1;
  inside = record { words = 0; name = []; description = []; fields = no_items_lem; columns = no_items_lem; aliases = no_items_lem };
  spare = [];
}

smallest_long : length (render_header smallest) ≡ 48
unfolding sealed unsummed payload_shape texts_shape lists_shape feature_words spelled
smallest_long = refl

pub smallest_right : RightHeader smallest
unfolding payload_shape texts_shape lists_shape well_formed goes_on due all_reach
smallest_right =
    record {
      envelope = record {
        version_fits = omega arith;
        least = omega arith;
        order = omega arith;
        read = omega arith;
        valid = ((tt, (refl, (refl, tt))), (((omega arith, refl, tt), ((omega arith, refl, tt), ((omega arith, refl, tt), tt))), tt));
        plain = λ _. ((tt, (((tt, refl), ((tt, refl), ((tt, refl), tt))), tt)), refl);
      };
      small = omega (arith, smallest_long);
      chains = refl;
    }

-- one byte added, whatever it is, at version 2 with minimum 1
abbrev longer : ℕ → HeaderTree
longer b = record {
  version = 2;
  minimum = 1;
  inside = record { words = 0; name = []; description = []; fields = no_items_lem; columns = no_items_lem; aliases = no_items_lem };
  spare = b ∷ [];
}

longer_long : (b : ℕ) → length (render_header (longer b)) ≡ 49
unfolding sealed unsummed payload_shape texts_shape lists_shape feature_words spelled
longer_long b = refl

no_items_grow : {C : Type 0} → GrownList (GrownFrame {C = C}) no_items_lem no_items_lem
no_items_grow = record { inside = none; spare = record { extra = []; is = refl } }

pub longer_read : (b : ℕ) → ReadHeader (longer b)
longer_read b =
    let grown : GrownPayload smallest.inside (longer b).inside = record {
      words = refl;
      name = refl;
      description = refl;
      fields = no_items_grow;
      columns = no_items_grow;
      aliases = no_items_grow;
    } in
    let chosen : ChosenHeader smallest (longer b) = extended {new = longer b} (record {
      minimum = refl;
      above = omega arith;
      not_lowered = omega arith;
      fits = omega arith;
      inside = grown;
      spare = record { extra = b ∷ []; is = refl };
    }) in
    header_complete (longer b) (chosen_right smallest (longer b) smallest_right chosen (omega (arith, longer_long b))).0

-- a field and a column on it, appended to the smallest header
abbrev pub one_field_lem : Framed FieldContent
one_field_lem =
    record {
      inside = record {
        head = record { field_version = 0; type_version = 0; parent = record { 0 = 0 }; role = 0; flags = 0; repetition = 0 };
        texts = record { name = 97 ∷ []; type_name = []; type_alias = []; description = [] };
      };
      spare = [];
    }

abbrev pub one_column_lem : Framed ColumnRow
one_column_lem = record { inside = record { column_type = 1; bits = 64; field = record { 0 = 0 }; flags = 0 }; spare = [] }

abbrev pub with_field : HeaderTree
with_field = appended smallest (one_field_lem ∷ []) (one_column_lem ∷ [])

with_field_long : length (render_header with_field) ≡ 101
unfolding sealed unsummed payload_shape texts_shape lists_shape feature_words spelled field_shape head_shape strings_shape column_shape
with_field_long = refl

with_field_may : Appendix smallest (one_field_lem ∷ []) (one_column_lem ∷ [])
unfolding field_shape head_shape strings_shape column_shape well_formed goes_on due known width_of widths
with_field_may =
    record {
      self_parented = (refl, tt);
      valid_fields = ((((omega arith, refl), ((omega arith, refl), ((omega arith, refl), ((omega arith, refl), ((omega arith, refl), (refl, tt)))))), ((refl, (refl, (refl, (refl, tt)))), tt)), tt);
      valid_columns = (((omega arith, refl), ((omega arith, refl), ((omega arith, refl), ((omega arith, refl), tt)))), tt);
      on_them = (omega arith, tt);
      plain_fields = λ _. (refl, tt);
      plain_columns = λ _. (refl, tt);
      few_fields = omega arith;
      few_columns = omega arith;
      small = omega (arith, with_field_long);
    }

pub with_field_right : RightHeader with_field
with_field_right = appended_right smallest smallest_right (one_field_lem ∷ []) (one_column_lem ∷ []) with_field_may

pub with_field_read : ReadHeader with_field
with_field_read = header_complete with_field with_field_right
