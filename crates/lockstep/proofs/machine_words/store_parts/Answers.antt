-- `lockstep::machine_words::store_parts` meets its contract: the parts stand one behind the other. Assumes nothing.
use mathlib.Core.List.{[]}
use lib.ListN.{get_or}
use Rattle.lockstep.proofs.StoredWords.{parts-stored}
use borrow.Author.Rules.{rules}
use Rattle.lockstep.proofs.machine_words.store_parts.Goals as goal

pub returns : goal.returns
returns c =
    let a = c.args in
    let rows = a.parts.now.vps in record {
      stored = rw (c.store_words-6.ensures, c.store_words-5.ensures, c.store_words-4.ensures, c.store_words-3.ensures, c.store_words-2.ensures, c.store_words.ensures)
          (parts-stored a.machine.now a.parts.now.levels a.parts.now.masks (get_or rows 0 []) (get_or rows 1 []) (get_or rows 2 []) (get_or rows 3 [])
          (search rules) (search rules) (search rules) (search rules) (search rules));
      sizes = record {
        levels-length = search rules;
        masks-length = search rules;
        first-length = search rules;
        second-length = search rules;
        third-length = search rules;
        fourth-length = search rules;
      };
    }
