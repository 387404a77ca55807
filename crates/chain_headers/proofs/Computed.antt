-- The chain of three fields, read by the definitions.
use mathlib.Core.Path.{◌≡◌, refl, ◌∙◌}
use Rattle.numbers.specs.Numbers.{little}
use Rattle.checksum.specs.Crc.{shifted, bits, byte, fold, crc32}
use Rattle.wire.specs.Reading.{number, judged}
use Rattle.text.specs.Strings.{string_of}
use Rattle.utf8.specs.WellFormed.{due, goes_on, well_formed}
use Rattle.frames.specs.Frames.{record_of, list_of, items, frame_size, record_head, list_stop, count_judged}
use Rattle.envelope.specs.Envelope.{versioned, opened}
use Rattle.envelope.specs.Features.{features}
use Rattle.records.specs.Records.{repetition, field_head, field_texts, field, texts}
use Rattle.parents.specs.Parents.{meets, all_reach}
use Rattle.chain_moves.specs.Moves.{moves, total_moves, all_moves}
use Rattle.chain_moves.specs.Distances.{chain_of}
use Rattle.header.specs.Header.{columns_after, aliases_after, lists, payload}
use Rattle.header.specs.Tables.{header_of, chained}
use Rattle.moves.specs.Moves.{answer}
use Rattle.tree.specs.Bytes.{spelled}
use Rattle.tree.specs.EnvelopeTree.{unsummed, sealed}
use Rattle.tree.specs.HeaderTree.{head_shape, strings_shape, field_shape, texts_shape, lists_shape, payload_shape, feature_words}
use Rattle.tree.specs.Spelling.{standard}
use Rattle.chain_headers.specs.Chain.{chain_header, chain_of_three, ComputedChain}
use Rattle.std.specs.Prelude.{Ok}

three_written : chain_header 3 ≡ chain_of_three
unfolding standard sealed unsummed payload_shape texts_shape lists_shape field_shape head_shape strings_shape feature_words spelled chain_of crc32 fold byte bits shifted
three_written = refl

three_counted : answer (header_of chain_of_three) ≡ Ok 3
unfolding versioned opened record_of list_of items number judged string_of well_formed goes_on due frame_size record_head list_stop count_judged little crc32 fold byte bits shifted features header_of chained payload texts lists columns_after aliases_after field field_head field_texts repetition meets all_reach answer moves total_moves all_moves
three_counted = refl

pub computed_chain : ComputedChain
computed_chain = record { bytes = three_written; three = λ r call. call.answers ∙ three_counted }
