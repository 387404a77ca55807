-- Links, and the list of metadata links.
use Rattle.std.specs.Prelude.{ℕ, List, [], Bool}
use Rattle.wire.specs.Reading.{Step, Rule, ◌>>=◌, give, number}
use Rattle.locator.specs.Locator.{located}
use Rattle.frames.specs.Frames.{items, list_of, at_most}
use Rattle.frames.specs.declared.ListHead.{ListHead}
use Rattle.rows.specs.Words.{most_links}
use Rattle.rows.specs.declared.Link.{Link}

-- a link: uncompressed size, then a locator whose stored size is the same, inside the file
unfoldable pub link : ℕ → Rule Link
link file = do
  size ← number 4
  located file size 0 (λ stored offset. give (record { size = stored; offset = offset }))

-- the items of a list at `list`, whose head was read
abbrev pub link_items : List ℕ → ℕ → ListHead → ℕ → Step (List Link)
link_items s list h file = items list (λ _. link file) h.count [] s h.start

-- the list of metadata links
abbrev pub link_list : Bool → ℕ → Rule (List Link)
link_list strict file = list_of strict (at_most most_links) (λ _ _. link file)
