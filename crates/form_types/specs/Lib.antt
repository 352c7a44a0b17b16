pub mod TypeTable
