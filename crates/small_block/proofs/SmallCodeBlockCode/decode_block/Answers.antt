use Rattle.std.proofs.Common.{ℕ, List, ◌≡◌, ◌%◌, map, unwrap_or, subst}
use Rattle.stored_form.specs.Search.{first_within}
use Rattle.coded_block.specs.Codes.{verdict_by}
use Rattle.small_block.proofs.Words.{words_are}
use Rattle.small_block.proofs.SmallCodeBlockCode.decode_block.Goals as goal

pub returns-clause-word : goal.returns-clause-word
returns-clause-word c =
    let got = c.args.got.now in
    subst (λ (words : List (List ℕ)). c.search.new.word ≡ unwrap_or (first_within 2 words got) (map (λ b. b % 4) got)) words_are c.search.ensures.word

pub returns-clause-verdict : goal.returns-clause-verdict
returns-clause-verdict c =
    let got = c.args.got.now in
    subst (λ (words : List (List ℕ)). c.search.result ≡ verdict_by got (first_within 2 words got)) words_are c.search.ensures.verdict
