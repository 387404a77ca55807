-- When two calls of a reader left the same tables, as a test that computes. The tables in which no place stands are compared word for word.
use Rattle.std.specs.Prelude.{ℕ, zero, suc, List, [], ◌∷◌, Bool, true, false, eqb}
use Rattle.numbers.specs.Choice.{both}
use Rattle.rows.specs.Tables.{field_row, dark_mark}
use Rattle.rows.specs.declared.Text.{Text}
use Rattle.rows.specs.declared.FieldHead.{FieldHead}
use Rattle.rows.specs.declared.FieldTexts.{FieldTexts}
use Rattle.reader.specs.Text.{text_of}
use Rattle.header.specs.declared.HeaderTables.{HeaderTables}
use Rattle.header.specs.Answer.{HeaderAnswer}
use Rattle.footer.specs.Answer.{FooterAnswer}
use Rattle.page_list.specs.Answer.{PageListAnswer}
use Rattle.std.specs.Prelude.{Ok, Err}

unfoldable pub same_numbers : List ℕ → List ℕ → Bool
same_numbers [] [] = true
same_numbers [] (y ∷ ys) = false
same_numbers (x ∷ xs) [] = false
same_numbers (x ∷ xs) (y ∷ ys) = both (eqb x y) (same_numbers xs ys)

-- the characters of a string of the envelope e, as the bytes that encode them
abbrev pub characters_of : List ℕ → Text → List ℕ
characters_of e t = text_of e t.place t.len

abbrev pub same_texts : List ℕ → Text → List ℕ → Text → Bool
same_texts e s e' t = same_numbers (characters_of e s) (characters_of e' t)

-- Fields: their numbers, their strings and their dark marks.

-- the numbers of a row before its strings
abbrev pub numbers_of : FieldHead → List ℕ
numbers_of h = h.field_version ∷ h.type_version ∷ h.parent.0 ∷ h.role ∷ h.flags ∷ h.repetition ∷ []

abbrev pub same_heads : FieldHead → FieldHead → Bool
same_heads a b = same_numbers (numbers_of a) (numbers_of b)

unfoldable pub same_strings : List ℕ → FieldTexts → List ℕ → FieldTexts → Bool
same_strings e a e' b =
    both (same_texts e a.name e' b.name) (both (same_texts e a.type_name e' b.type_name)
    (both (same_texts e a.type_alias e' b.type_alias) (same_texts e a.description e' b.description)))

-- row i of the tables f and f'
unfoldable pub same_field : List ℕ → List ℕ → List ℕ → List ℕ → ℕ → Bool
same_field e f e' f' i =
    both (same_heads (field_row f i).head (field_row f' i).head) (both (same_strings e (field_row f i).texts e' (field_row f' i).texts) (eqb (dark_mark f i) (dark_mark f' i)))

-- a test holds of n numbers from i on
unfoldable pub all_from : (ℕ → Bool) → ℕ → ℕ → Bool
all_from test zero i = true
all_from test (suc n) i = both (test i) (all_from test n (suc i))

abbrev pub same_fields : List ℕ → List ℕ → List ℕ → List ℕ → ℕ → Bool
same_fields e f e' f' n = all_from (same_field e f e' f') n 0

-- Headers: the call for e answered x and left the tables f, c and a of fields, columns and aliases.

unfoldable pub same_read : List ℕ → List ℕ → HeaderTables → List ℕ → List ℕ → HeaderTables → Bool
same_read e f t e' f' t' =
    both (eqb t.fields t'.fields) (both (eqb t.columns t'.columns) (both (eqb t.aliases t'.aliases)
    (both (same_texts e t.texts.name e' t'.texts.name) (both (same_texts e t.texts.description e' t'.texts.description) (same_fields e f e' f' t.fields)))))

abbrev pub same_answers : List ℕ → List ℕ → HeaderAnswer → List ℕ → List ℕ → HeaderAnswer → Bool
same_answers e f (Ok t) e' f' (Ok t') = same_read e f t e' f' t'
same_answers e f (Ok t) e' f' (Err n) = false
same_answers e f (Err n) e' f' x = false

abbrev pub same_headers : (e f c a : List ℕ) → HeaderAnswer → (e' f' c' a' : List ℕ) → HeaderAnswer → Bool
same_headers e f c a x e' f' c' a' x' = both (same_numbers c c') (both (same_numbers a a') (same_answers e f x e' f' x'))

-- Footers: a call answered x and left the tables c and m of clusters and metadata links.

abbrev pub same_footer_counts : FooterAnswer → FooterAnswer → Bool
same_footer_counts (Ok n) (Ok n') = both (eqb n.clusters n'.clusters) (eqb n.metadata n'.metadata)
same_footer_counts (Ok n) (Err why) = false
same_footer_counts (Err why) x = false

abbrev pub same_footers : (c m : List ℕ) → FooterAnswer → (c' m' : List ℕ) → FooterAnswer → Bool
same_footers c m x c' m' x' = both (same_numbers c c') (both (same_numbers m m') (same_footer_counts x x'))

-- Page lists: a call answered x and left the table p of pages.

abbrev pub same_page_counts : PageListAnswer → PageListAnswer → Bool
same_page_counts (Ok n) (Ok n') = eqb n n'
same_page_counts (Ok n) (Err why) = false
same_page_counts (Err why) x = false

abbrev pub same_page_lists : List ℕ → PageListAnswer → List ℕ → PageListAnswer → Bool
same_page_lists p x p' x' = both (same_numbers p p') (same_page_counts x x')
