use Rattle.std.proofs.Common.{◌≡◌, ℕ, ◌+◌, ◌<◌, ◌≤◌, Bor, List, [], ◌∷◌, ◌∙◌, ap, arith, length, slice_index, slice_index_or, subst, sym}
use Rattle.sha2.specs.Sha256.{word_at}
use Rattle.sha256_lanes.specs.Lanes.{message}
use Rattle.sha256_lanes.proofs.Eight.{below_eight, message_is}
use Rattle.sha256_lanes.proofs.block.words_at.Goals as goal

-- a message as it is read has room for a word
has_room : (messages : List (Bor (List ℕ))) (at l : ℕ) → ((l : ℕ) → l < 8 → at + 4 ≤ length (message messages l)) → l < 8
    → at + 4 ≤ length (slice_index_or messages l (record { ref_ptr = (0, 0); now = [] })).now
has_room messages at l room lt = subst (λ (m : List ℕ). at + 4 ≤ length m) (message_is messages l) (room l lt)

-- a word of a message as it is read
word_is : (messages : List (Bor (List ℕ))) (at l word : ℕ)
    → word ≡ word_at (slice_index_or messages l (record { ref_ptr = (0, 0); now = [] })).now at → word ≡ word_at (message messages l) at
word_is messages at l word is = is ∙ ap (λ (m : List ℕ). word_at m at) (sym (message_is messages l))

pub word_at-requires : goal.word_at-requires
word_at-requires c = has_room c.args.messages.now c.args.at 0 c.requires (omega arith)

pub word_at-requires-2 : goal.word_at-requires-2
word_at-requires-2 c = has_room c.args.messages.now c.args.at 1 c.requires (omega arith)

pub word_at-requires-3 : goal.word_at-requires-3
word_at-requires-3 c = has_room c.args.messages.now c.args.at 2 c.requires (omega arith)

pub word_at-requires-4 : goal.word_at-requires-4
word_at-requires-4 c = has_room c.args.messages.now c.args.at 3 c.requires (omega arith)

pub word_at-requires-5 : goal.word_at-requires-5
word_at-requires-5 c = has_room c.args.messages.now c.args.at 4 c.requires (omega arith)

pub word_at-requires-6 : goal.word_at-requires-6
word_at-requires-6 c = has_room c.args.messages.now c.args.at 5 c.requires (omega arith)

pub word_at-requires-7 : goal.word_at-requires-7
word_at-requires-7 c = has_room c.args.messages.now c.args.at 6 c.requires (omega arith)

pub word_at-requires-8 : goal.word_at-requires-8
word_at-requires-8 c = has_room c.args.messages.now c.args.at 7 c.requires (omega arith)

pub returns : goal.returns
returns c =
    let messages = c.args.messages.now in
    let at = c.args.at in
    let is = word_is messages at in
    let words = c.word_at.result ∷ c.word_at-2.result ∷ c.word_at-3.result ∷ c.word_at-4.result
    ∷ c.word_at-5.result ∷ c.word_at-6.result ∷ c.word_at-7.result ∷ c.word_at-8.result ∷ [] in
    below_eight (λ l. slice_index words l ≡ word_at (message messages l) at)
    (is 0 _ c.word_at.ensures) (is 1 _ c.word_at-2.ensures) (is 2 _ c.word_at-3.ensures) (is 3 _ c.word_at-4.ensures)
    (is 4 _ c.word_at-5.ensures) (is 5 _ c.word_at-6.ensures) (is 6 _ c.word_at-7.ensures) (is 7 _ c.word_at-8.ensures)
