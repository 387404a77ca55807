-- What the tests mean: a test is passed exactly when the tables are the same, as document 01 has it: "Tables are the same when their counts,
-- the rows counted and, for a header, its name and description are; rows are the same in numbers and dark marks, and every string in its characters".
use Rattle.std.specs.Prelude.{ℕ, ◌<◌, List, Bool, true, ◌≡◌}
use Rattle.rows.specs.Tables.{field_row, dark_mark}
use Rattle.header.specs.declared.HeaderTables.{HeaderTables}
use Rattle.same_tables.specs.Same.{characters_of, numbers_of, same_headers, same_footers, same_page_lists}
use Rattle.std.specs.Prelude.{Ok}

pub record SameField (e f e' f' : List ℕ) (i : ℕ) : Type 0 where
  pub numbers : numbers_of (field_row f i).head ≡ numbers_of (field_row f' i).head
  pub name : characters_of e (field_row f i).texts.name ≡ characters_of e' (field_row f' i).texts.name
  pub type_name : characters_of e (field_row f i).texts.type_name ≡ characters_of e' (field_row f' i).texts.type_name
  pub type_alias : characters_of e (field_row f i).texts.type_alias ≡ characters_of e' (field_row f' i).texts.type_alias
  pub description : characters_of e (field_row f i).texts.description ≡ characters_of e' (field_row f' i).texts.description
  pub dark : dark_mark f i ≡ dark_mark f' i

pub record SameHeaders (e f c a : List ℕ) (t : HeaderTables) (e' f' c' a' : List ℕ) (t' : HeaderTables) : Type 0 where
  pub field_count : t.fields ≡ t'.fields
  pub column_count : t.columns ≡ t'.columns
  pub alias_count : t.aliases ≡ t'.aliases
  pub name : characters_of e t.texts.name ≡ characters_of e' t'.texts.name
  pub description : characters_of e t.texts.description ≡ characters_of e' t'.texts.description
  pub fields : (i : ℕ) → i < t.fields → SameField e f e' f' i
  pub columns : c ≡ c'
  pub aliases : a ≡ a'

pub record SameFooters (c m : List ℕ) (clusters links : ℕ) (c' m' : List ℕ) (clusters' links' : ℕ) : Type 0 where
  pub cluster_count : clusters ≡ clusters'
  pub link_count : links ≡ links'
  pub cluster_rows : c ≡ c'
  pub link_rows : m ≡ m'

pub record SamePageLists (p : List ℕ) (pages : ℕ) (p' : List ℕ) (pages' : ℕ) : Type 0 where
  pub page_count : pages ≡ pages'
  pub page_rows : p ≡ p'

-- a test is passed exactly where something is so
pub record Exactly (test : Bool) (So : Type 0) : Type 0 where
  pub sound : test ≡ true → So
  pub complete : So → test ≡ true

abbrev pub HeadersTold : Type 0
HeadersTold = (e f c a : List ℕ) (t : HeaderTables) (e' f' c' a' : List ℕ) (t' : HeaderTables)
    → Exactly (same_headers e f c a (Ok t) e' f' c' a' (Ok t')) (SameHeaders e f c a t e' f' c' a' t')

abbrev pub FootersTold : Type 0
FootersTold = (c m : List ℕ) (n k : ℕ) (c' m' : List ℕ) (n' k' : ℕ)
    → Exactly (same_footers c m (Ok (record { clusters = n; metadata = k })) c' m' (Ok (record { clusters = n'; metadata = k' }))) (SameFooters c m n k c' m' n' k')

abbrev pub PageListsTold : Type 0
PageListsTold = (p : List ℕ) (n : ℕ) (p' : List ℕ) (n' : ℕ) → Exactly (same_page_lists p (Ok n) p' (Ok n')) (SamePageLists p n p' n')
